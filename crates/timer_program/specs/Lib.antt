pub mod Arguments
pub mod Files
pub mod Reports
pub mod StateFile
pub mod KeptStream
pub mod Command
