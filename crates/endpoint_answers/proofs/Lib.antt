mod Rows
mod Replied
mod BodyReads
