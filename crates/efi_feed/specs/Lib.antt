-- an input that goes to a reader in pieces
pub mod Pieces
