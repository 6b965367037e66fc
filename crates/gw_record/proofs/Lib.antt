pub mod Blank
pub mod RecordLaws
pub mod KeepLaws
pub mod ReachLaws
pub mod CutLaws
pub mod CarryLaws
pub mod AdoptLaws
