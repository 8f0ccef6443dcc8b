pub mod FileTexts
