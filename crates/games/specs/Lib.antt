pub mod Trees
pub mod Evaluations
pub mod Examples
pub mod ExampleLaw
pub mod Everywhere
