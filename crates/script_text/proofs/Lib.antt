pub mod PathTexts
pub mod LineOrders
pub mod LineImages
pub mod LineTexts
pub mod ScriptLines
pub mod ScriptGood
pub mod ScriptRead
pub mod OutputImages
