pub mod CountLaws
pub mod FindLaws
pub mod StartLaws
pub mod UnitLaws
