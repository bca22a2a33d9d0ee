pub mod Gives
pub mod Made
pub mod Cursor
pub mod Levels
pub mod Tests
pub mod Clauses
