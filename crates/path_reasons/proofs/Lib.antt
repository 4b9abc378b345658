pub mod ListLemmas
pub mod RouteLemmas
pub mod MemberLemmas
pub mod LawLemmas
