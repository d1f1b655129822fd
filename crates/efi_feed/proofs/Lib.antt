-- what is known of an input that is fed in pieces
mod Inputs
