pub mod Board
pub mod Books
pub mod InternalBoard
pub mod Laws
pub mod Machine
