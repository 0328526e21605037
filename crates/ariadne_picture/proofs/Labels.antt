-- The labels of a report: their orders, their groups, and where they stand in their source.
pub mod Orders
pub mod Cutting
pub mod Accepted
pub mod GroupLines
pub mod LineLabels
pub mod LabelPlaces
pub mod DrawnLabels
pub mod LabelsAtLine
