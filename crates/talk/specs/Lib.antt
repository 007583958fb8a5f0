pub mod Faults
pub mod Texts
pub mod Numbers
pub mod Steps
pub mod StepWords
pub mod Exchanged
pub mod TalkLaws
