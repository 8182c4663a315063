pub mod Refusing
pub mod Running
pub mod SettingUp
