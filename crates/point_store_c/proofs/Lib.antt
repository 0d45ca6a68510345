pub mod ExportedHoldLaws
pub mod ExportedProbesLaws
pub mod ExportedStoreLaws
pub mod HoldRecordLaws
pub mod ProbesRecordLaws
pub mod RecordLaws
pub mod RecordedLaws
