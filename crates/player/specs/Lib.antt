pub mod Replies
pub mod Plays
pub mod Transcripts
