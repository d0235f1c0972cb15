mod Again
pub mod BlankLaws
pub mod FormLaws
mod Found
mod HexLaws
pub mod MnemonicLaws
mod NameLaws
pub mod PartLaws
pub mod SolidLaws
pub mod WordLaws
