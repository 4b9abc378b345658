pub mod Alone
pub mod Worked
pub mod Held
pub mod PutBack
