mod OneFrame
mod Phrases
mod WrittenBodies
