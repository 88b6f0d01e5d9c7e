pub mod RecordLaws
pub mod TripLaws
