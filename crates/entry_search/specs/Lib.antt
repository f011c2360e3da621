pub mod EntrySearch
pub mod CodedSearch
