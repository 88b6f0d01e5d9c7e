-- The laws behind the powers. Assumes nothing.
mod Turns
mod Near
mod Products
mod Base
mod PowerNear
mod Patterns
mod Narrow
mod Search
mod Window
mod RootNear
mod Answers
pub mod Laws
