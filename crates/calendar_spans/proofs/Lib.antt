pub mod NearestLemmas
pub mod ProductLemmas
pub mod QuotientLemmas
pub mod SumLemmas
pub mod TextLemmas
pub mod UnitLemmas
