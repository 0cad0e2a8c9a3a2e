-- What contracts cite: `Bits` has the register's step, bit by bit, `Bytes` the bytes of words, `Crc` the CRC-32 of
-- bytes, `Burst` what it always detects.
pub mod Bits
pub mod Bytes
pub mod Crc
pub mod Burst
