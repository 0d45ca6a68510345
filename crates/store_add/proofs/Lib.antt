mod RoomLaws
mod TakeLaws
mod ActLaws
