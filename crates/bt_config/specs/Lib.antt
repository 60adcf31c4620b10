pub mod Migrated
pub mod Violations
