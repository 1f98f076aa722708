pub mod NoEnd
