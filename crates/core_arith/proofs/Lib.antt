pub mod LongNaturals
pub mod Normal
