-- What a finished picture is as it is sent: columns of texts, and lines.
pub mod TextColumns
pub mod CellColumns
pub mod LinesSent
