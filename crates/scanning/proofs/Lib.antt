pub mod PiecesToModes
pub mod ModesToPieces
