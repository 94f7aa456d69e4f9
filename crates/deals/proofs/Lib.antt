pub mod Beats
pub mod Choices
pub mod Layouts
pub mod Lines
pub mod Values
