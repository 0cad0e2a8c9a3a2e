-- What a program that reads, makes a text and writes it has written.
pub mod Written
