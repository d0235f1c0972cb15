pub mod Again
pub mod Few
pub mod PartsAgain
pub mod SymbolsAgain
pub mod WholeAgain
pub mod WrittenSymbols
