-- The laws of the register that the proofs of this crate cite. Those for callers are in crate crc_spec.
pub mod Register
pub mod ByteSteps
