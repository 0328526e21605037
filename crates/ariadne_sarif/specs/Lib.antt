pub mod DocumentParts
pub mod Fixing
pub mod SarifFlows
pub mod SarifLogs
pub mod SarifMessages
pub mod SarifSpans
pub mod Uris
