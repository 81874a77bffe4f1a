pub mod Agents
pub mod Letters
pub mod Palindromes
pub mod Replies
pub mod Sessions
