pub mod FirLaws
