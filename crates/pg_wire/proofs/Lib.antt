mod Appends
pub mod Heads
pub mod Framed
pub mod Loops
pub mod Shorter
pub mod Texts
pub mod Items
pub mod RowLaws
pub mod Arms
pub mod BackMessages
pub mod FrontMessages
pub mod Within
pub mod Readings
pub mod FrameLaws
pub mod OneMessage
pub mod RunLaws
mod Seen
pub mod Placing
pub mod ListPlaces
pub mod FieldPlaces
pub mod FaultPlaces
pub mod FrontPlaces
pub mod BackPlaces
pub mod Unfinished
