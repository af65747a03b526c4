mod Even
pub mod Choices
