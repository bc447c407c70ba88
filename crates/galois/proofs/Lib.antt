pub mod Below
pub mod Laws
pub mod PowerTables
pub mod Powers
