pub mod CallPlan
pub mod Faults
pub mod FileMap
pub mod MemFiles
pub mod MemSink
pub mod Room
pub mod SureSink
pub mod Told
