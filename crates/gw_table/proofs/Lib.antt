pub mod Laws
pub mod LookupLaws
pub mod RoomLaws
pub mod SetLaws
