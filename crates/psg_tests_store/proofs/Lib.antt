pub mod ManyCells
