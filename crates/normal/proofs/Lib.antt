pub mod DesignCells
