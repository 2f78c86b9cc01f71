pub mod ReplyTexts
pub mod BodyReading
