-- The modules of laws: `WordLaws` of a changed image's words, `PositionLaws` of where a scan's records are,
-- `DamageLaws` of the first test that fails at a changed record; `HolderLaws`, `OneWordTheorem` and `OneRecordTheorem`
-- for specs/OneCell.antt, `Examples` of where the rule ends.
pub mod WordLaws
pub mod PositionLaws
pub mod DamageLaws
pub mod HolderLaws
pub mod OneWordTheorem
pub mod OneRecordTheorem
pub mod Examples
