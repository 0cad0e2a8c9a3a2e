-- The modules of laws: `Xor` and `Linear` of the exclusive or and the register, `Laws` of the CRC-32 and of the bytes
-- of words, for callers, `Register` of the register over a word, `Burst` of what the CRC-32 always detects.
pub mod Xor
pub mod Linear
pub mod Laws
pub mod Register
pub mod Burst
