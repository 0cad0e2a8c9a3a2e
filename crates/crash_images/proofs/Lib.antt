-- Each image of a crash point comes once, and the crashes are numbered without a gap; the same by steps that suit code.
pub mod ChoiceLaws
pub mod WayLaws
pub mod PointLaws
pub mod EachOnceProved
pub mod Worked
pub mod StepLaws
pub mod StepTotals
pub mod BufferLaws
pub mod TableLaws
