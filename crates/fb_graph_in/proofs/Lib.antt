pub mod TokenLists
pub mod TokenMembers
pub mod Triples
