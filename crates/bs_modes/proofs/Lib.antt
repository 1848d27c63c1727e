pub mod FirstLegal
pub mod GrownBodies
pub mod InPlace
