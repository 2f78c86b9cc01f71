pub mod HeaderTexts
