-- One selected entry: the call and the lookup, and that they are exact.
pub mod SelectedEntry
