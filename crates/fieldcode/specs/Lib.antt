pub mod Ranges
pub mod Insts
pub mod Works
pub mod Homes
pub mod Values
pub mod Runs
pub mod Effects
pub mod Laws
