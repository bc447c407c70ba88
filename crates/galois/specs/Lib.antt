pub mod Galois
