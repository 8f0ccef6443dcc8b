pub mod Words
pub mod Sections
pub mod Marks
pub mod Tpl
pub mod TplBeginning
