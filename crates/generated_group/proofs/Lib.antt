pub mod CodeLaws
pub mod StartLaws
pub mod WorkLaws
pub mod FileLaws
pub mod RoomLaws
