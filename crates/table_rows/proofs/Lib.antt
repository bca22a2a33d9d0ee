pub mod ThreeValued
pub mod Parts
pub mod OneOrder
pub mod Orders
