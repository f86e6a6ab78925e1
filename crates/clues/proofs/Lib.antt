pub mod Loops
pub mod ListsCode
pub mod Fitting
pub mod Alone
