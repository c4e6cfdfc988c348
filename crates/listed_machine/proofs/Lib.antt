pub mod RanLaws
pub mod LentLaws
pub mod TablesLaws
